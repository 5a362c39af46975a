-- What the record and whole-variable reads answer stands in the crate reads.
pub mod Inner
