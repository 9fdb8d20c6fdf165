-- Laws of one comparison.
pub mod Lists
pub mod Values
pub mod Carries
pub mod Dealt
pub mod Agreement
pub mod Reduced
pub mod Grouping
pub mod Steps
pub mod Counts
pub mod Levels
pub mod Chain
pub mod Promise
pub mod Plain
pub mod Matched
pub mod Matching
pub mod Only
pub mod Hiding
