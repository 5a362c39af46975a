-- The laws of the definitions in specs/, under the same file names, and the invariants of the loops. Each is stated over the width, the
-- format or the element's type; proofs of functions cite these and open no definition.
pub mod Decoded
pub mod Pairs
pub mod Filled
pub mod Tabled
pub mod Room
