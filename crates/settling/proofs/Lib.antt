-- Laws of settlements.
pub mod Page
pub mod Settled
