-- Words of inner contracts alone: no entry's contract reaches them.
pub mod Taken
pub mod Rows
