-- What the functions' proofs share. The crate that opens cites both.
pub mod Products
pub mod Picked
