-- Where the parties stand, and laws of it.
pub mod Standing
pub mod Rounds
pub mod Holding
