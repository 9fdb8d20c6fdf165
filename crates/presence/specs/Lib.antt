-- Who was present: what the contracts and the laws cite.
pub mod Presence
