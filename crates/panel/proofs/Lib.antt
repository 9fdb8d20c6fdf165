-- Laws of parts of a flat list.
pub mod Parts
