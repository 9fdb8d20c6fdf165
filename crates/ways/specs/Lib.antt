-- The two ways to a verdict: what the contracts cite.
pub mod Way
