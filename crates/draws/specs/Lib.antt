-- The draws: what the contracts cite.
pub mod Draws
