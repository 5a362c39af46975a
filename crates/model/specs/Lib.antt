-- The model rules, as definitions. Each comment names the section of document 01 ("01, ..").
pub mod Model
pub mod Inner
