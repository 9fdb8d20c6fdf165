-- Laws of a record, for the calls on it and for theorems about runs.
pub mod Replies
pub mod Soundness
pub mod Updates
