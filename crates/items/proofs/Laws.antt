-- The laws of the definitions in specs/, under the same file names. Proofs of functions cite these and open no definition.
pub mod Utf8
pub mod Name
pub mod Types
pub mod Values
