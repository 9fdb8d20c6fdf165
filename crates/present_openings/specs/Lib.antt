-- Opening the words of those who were present: what the contracts and the laws cite.
pub mod Present
pub mod Law
