-- Laws, and the proofs of the functions.
pub mod Laws
