-- The laws of marks, which other crates cite.
pub mod Laws
mod Loops
