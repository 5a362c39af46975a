-- The grammar of a header, as definitions. Each comment names the section of document 01 ("01, ..") or the rule of the
-- format's grammar ("BNF: ..") that the definition writes down.
pub mod Tree
pub mod Tables
pub mod Dims
pub mod Attrs
pub mod Vars
pub mod Grammar
pub mod Meaning
pub mod Inner
