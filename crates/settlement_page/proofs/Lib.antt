-- Laws of columns and lines.
pub mod Aligned
pub mod Parts
pub mod Lines
pub mod Rows
pub mod Fits
