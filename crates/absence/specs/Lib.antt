-- What is promised of the words of those who were not present.
pub mod Unmarked
