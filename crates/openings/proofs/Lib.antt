-- The laws of opening, and lemmas that the functions' proofs share. Other crates cite Laws, for weights of their own Rows and
-- Weighing, and for an opening of their own Numbers, Settled, Parts, Packed and Weighted.
pub mod Weighing
pub mod Rows
pub mod Laws
pub mod Numbers
pub mod Settled
pub mod Parts
mod Sums
mod Powers
pub mod Packed
pub mod Weighted
