-- Tables as numbers.
pub mod Words
pub mod Inner
