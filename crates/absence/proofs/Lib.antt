-- That the words of those who were not present change nothing.
pub mod Unmarked
