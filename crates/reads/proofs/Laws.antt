-- The laws of the definitions in specs/, under the same file names.
pub mod Reads
pub mod Element
pub mod Bounded
pub mod Kept
