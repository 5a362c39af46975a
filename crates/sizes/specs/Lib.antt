-- Chunks, records and their count, as definitions. Each comment names the section of document 01 ("01, ..").
pub mod Records
pub mod Count
pub mod Inner
