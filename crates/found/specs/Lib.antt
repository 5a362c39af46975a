-- What is found of a variable before it is read, as definitions. Each comment names the section of document 01 ("01, ..").
pub mod Sought
pub mod Inner
