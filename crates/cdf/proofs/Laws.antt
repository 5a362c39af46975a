-- The laws of the definitions in specs/, under the same file names. Proofs of functions cite these and open no definition.
pub mod Step
pub mod Place
pub mod Below
pub mod Refusals
pub mod Word
pub mod Magic
pub mod Padding
pub mod ListStart
