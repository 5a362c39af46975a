-- What widening and narrowing answer.
pub mod Convert
pub mod Inner
