-- The refusal list, and how a call is judged by it.
pub mod Refusal
pub mod Judging
