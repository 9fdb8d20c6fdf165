-- The calls of a round on a lent record: what the contracts cite.
pub mod Calls
