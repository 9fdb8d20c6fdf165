-- Laws of the two ways.
pub mod Laws
