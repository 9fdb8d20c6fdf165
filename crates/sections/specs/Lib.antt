-- The sections of the input.
pub mod Sections
