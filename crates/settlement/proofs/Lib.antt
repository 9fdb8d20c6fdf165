-- Laws of entries, of replies, and of pages that are read back.
pub mod Pairs
pub mod Replies
pub mod Back
pub mod Promised
