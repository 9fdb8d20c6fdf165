-- The definitions that the contracts and the theorems of `search` cite. Assumes nothing.
pub mod Bracket
pub mod Limit
pub mod Clearing
pub mod Searches
pub mod Search
