-- The laws of the definitions in specs/, and of the numbers that answers have.
pub mod Numbers
pub mod Outputs
