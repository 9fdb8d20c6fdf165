-- The auction that is rehearsed, with the bids of an input.
pub mod Numbered
