-- The rehearsal's input: what the contracts cite.
pub mod Plan
pub mod Judged
