-- The laws of the definitions in specs/.
pub mod Sums
pub mod Chain
pub mod Inside
pub mod Totals
pub mod Rows
pub mod Words
pub mod Lists
pub mod Lengths
pub mod Tested
pub mod Said
pub mod Read
pub mod Listed
