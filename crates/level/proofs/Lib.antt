-- Laws of a level.
pub mod Laws
