-- What the tests of hearing say, for theorems about runs, and lemmas that the functions' proofs share.
pub mod Hears
pub mod Left
pub mod Next
