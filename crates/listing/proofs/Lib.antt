-- Laws of text and of the lines.
pub mod Writing
pub mod Telling
