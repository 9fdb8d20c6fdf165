-- Laws of entries.
pub mod Entering
