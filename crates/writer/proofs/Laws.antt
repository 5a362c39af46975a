-- Laws of what the writer puts into its output.
pub mod Put
pub mod Rows
pub mod Vars
pub mod Whole
pub mod Writes
