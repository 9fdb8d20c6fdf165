-- What is noted of a search.
pub mod Follows
