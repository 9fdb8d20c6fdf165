-- Laws of judging a section.
pub mod Counts
pub mod Tables
pub mod Bids
