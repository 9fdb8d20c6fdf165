-- What the bids of an input want and get at an index.
pub mod Entries
