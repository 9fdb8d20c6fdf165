-- Lemmas that the functions' proofs share.
pub mod Codes
