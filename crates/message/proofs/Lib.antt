-- What is said, by round, and the words that are used, in facts.
pub mod Sheets
pub mod Messages
