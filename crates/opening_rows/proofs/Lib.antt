-- Laws of the rows.
pub mod Laws
