-- Rows of what a party's byte brings to an opening: what the contracts cite.
pub mod Rows
