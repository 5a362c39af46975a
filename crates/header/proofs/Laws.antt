-- The laws of the definitions in specs/; `Refusals` and `Accepted` say what an answer of the reader comes from.
pub mod Header
pub mod Refusals
pub mod Accepted
