-- The laws of the definitions in specs/, under the same file names; Numbers has what no refusal is.
pub mod Reader
pub mod Variable
