-- Laws of reading lines.
pub mod Reading
pub mod Again
