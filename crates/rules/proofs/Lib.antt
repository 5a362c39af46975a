-- Laws of the rules, and what the reader's steps have to do with them.
pub mod Laws
