-- What the tests of the calls say, for theorems about runs, and lemmas that the functions' proofs share.
pub mod Answered
pub mod Words
pub mod Laws
