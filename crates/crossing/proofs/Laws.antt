-- Laws of tables as numbers.
pub mod Joined
pub mod Loading
pub mod Fits
pub mod Stored
pub mod Loads
pub mod Back
pub mod Code
