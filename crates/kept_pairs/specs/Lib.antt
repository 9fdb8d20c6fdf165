-- The pair shares that a party keeps: what the contracts cite.
pub mod Pairs
