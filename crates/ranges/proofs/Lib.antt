-- Laws of lists and ranges that other crates cite.
pub mod Joined
pub mod Loops
pub mod Bends
pub mod Ends
pub mod Counting
pub mod Distinct
pub mod Orders
pub mod Ranges
pub mod Compared
