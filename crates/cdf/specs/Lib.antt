-- The words of the NetCDF classic format, as definitions. Each comment names the section of document 01 ("01, ..") or the
-- rule of the format's grammar ("BNF: ..") that the definition writes down.
pub mod Step
pub mod Refusals
pub mod Below
pub mod Form
pub mod Word
pub mod Magic
pub mod Padding
pub mod ListStart
pub mod Inner
