-- The laws of opening by marks, and the points of those who were present, which other crates cite; and lemmas that the functions' proofs
-- share.
pub mod Laws
pub mod Points
mod Opened
