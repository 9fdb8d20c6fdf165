-- The theorems of `search`, and the laws that lead to them. Assumes nothing.
pub mod Logarithm
pub mod Highest
pub mod Lowest
pub mod Clearing
pub mod Balance
pub mod Narrowing
pub mod Sides
pub mod Bounds
pub mod Cleared
pub mod Promised
pub mod Trails
