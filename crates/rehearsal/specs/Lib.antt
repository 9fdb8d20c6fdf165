-- The listing of an input.
pub mod Listing
