-- What the tests of listening say, for those of hearing and for the functions' proofs.
pub mod Laws
