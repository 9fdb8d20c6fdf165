-- One comparison: what the contracts and the laws cite.
pub mod Local
pub mod Rounds
pub mod Pairs
pub mod Probe
