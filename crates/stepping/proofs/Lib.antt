-- The record after a heard round, in laws.
pub mod Next
