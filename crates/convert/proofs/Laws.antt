-- Laws of widening and narrowing.
pub mod Moved
pub mod Read
pub mod Convert
pub mod Length
