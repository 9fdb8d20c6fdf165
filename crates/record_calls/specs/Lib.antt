-- The calls on a lent record: what the contracts cite.
pub mod Calls
