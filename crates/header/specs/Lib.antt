-- What the header reader answers, as definitions. Each comment names the section of document 01 ("01, ..").
pub mod Header
pub mod Inner
