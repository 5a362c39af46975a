-- Reads, as definitions. Each comment names the section of document 01 ("01, ..").
pub mod Kept
pub mod Reads
pub mod Element
pub mod Inner
