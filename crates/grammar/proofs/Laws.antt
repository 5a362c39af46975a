-- The laws of the definitions in specs/, under the same file names; `Arrays` has what holds of every array.
pub mod Tables
pub mod Within
pub mod Meaning
pub mod Arrays
