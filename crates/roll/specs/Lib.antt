-- The roll of bidders: what the contracts cite.
pub mod Marks
