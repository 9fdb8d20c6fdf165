-- What the tests of a fill say, what is promised of fills, and lemmas that the functions' proofs share.
pub mod Replies
pub mod Laws
pub mod Sums
