-- Words of inner contracts alone: no entry's contract and no demand reaches them.
pub mod Lengths
pub mod Rows
pub mod Tests
