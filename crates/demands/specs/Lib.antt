-- What is promised of the whole, one module for each demand or question. A statement is a type; proofs/ has a proof of it.
pub mod Determined
pub mod Examples
pub mod Versions
pub mod RecordCount
pub mod Suspect
pub mod ValueReads
pub mod FoundOnce
pub mod Crossing
pub mod Laid
pub mod Derived
pub mod Written
pub mod Converted
