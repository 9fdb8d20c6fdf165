-- Laws of the draws.
pub mod Drawn
