-- What the header writer answers.
pub mod Writes
pub mod Inner
