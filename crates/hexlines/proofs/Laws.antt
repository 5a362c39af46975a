-- The laws of the definitions in specs/, under the same file names. Proofs of functions cite these and open no definition.
pub mod Digit
pub mod Line
pub mod Cut
pub mod Text
pub mod Lines
