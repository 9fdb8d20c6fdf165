-- Laws of lowered words, which the crates that open by them cite.
pub mod Descent
pub mod Lowering
mod Arms
mod Crossing
mod Steps
pub mod Parts
