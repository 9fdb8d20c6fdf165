-- The settlement of an input.
pub mod Settlement
