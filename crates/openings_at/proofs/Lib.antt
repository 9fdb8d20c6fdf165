-- The laws of opening at any different points, which other crates cite, and lemmas that the functions' proofs share.
pub mod Laws
mod Descended
pub mod Opened
mod Pairs
