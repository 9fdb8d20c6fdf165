-- The calls that take no record: what the contracts cite.
pub mod Calls
