-- The laws of the definitions in specs/, under the same file names.
pub mod Model
pub mod Rows
pub mod Names
