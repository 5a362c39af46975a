-- What the tables are tested for before they are written. Each comment names the section of document 01 ("01, ..").
pub mod Writable
pub mod Inner
