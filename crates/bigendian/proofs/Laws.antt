-- The laws of the definitions in specs/, under the same file names. Proofs of functions cite these and open no definition.
pub mod Number
pub mod Lists
