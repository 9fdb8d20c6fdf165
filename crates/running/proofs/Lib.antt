-- What holds of an accepted input, and of the start of its auction.
pub mod Starting
pub mod Accepted
