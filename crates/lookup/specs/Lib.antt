-- Name lookup, as definitions. Each comment names the section of document 01 ("01, ..").
pub mod Lookup
