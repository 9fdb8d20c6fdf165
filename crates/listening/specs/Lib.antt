-- Listening to a round: what the contracts cite.
pub mod Listen
