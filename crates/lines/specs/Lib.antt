-- Lines, and the numbers that they are read as.
pub mod Lines
