-- What the exported functions answer.
pub mod Reader
pub mod Variable
