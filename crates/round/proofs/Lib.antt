-- What the messages of a round open to, in laws.
pub mod Opened
pub mod Straight
