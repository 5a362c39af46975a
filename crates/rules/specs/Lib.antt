-- The format as rules, and the bytes that they make of what a header says.
pub mod Rules
pub mod Encode
pub mod Capacity
pub mod Range
pub mod Cleared
