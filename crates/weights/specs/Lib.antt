-- The weights of an opening: what the contracts and the laws cite.
pub mod Rows
pub mod Products
