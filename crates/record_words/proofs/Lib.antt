-- Laws of a record as words, and lemmas that the functions' proofs share.
pub mod Lent
pub mod Parts
pub mod ReadBack
