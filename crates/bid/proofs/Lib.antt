-- Laws of splitting a bid, which other crates cite.
pub mod Laws
pub mod Entries
