-- What the tests of saying say, for theorems about runs, and lemmas that the functions' proofs share.
pub mod Sheets
pub mod Laws
