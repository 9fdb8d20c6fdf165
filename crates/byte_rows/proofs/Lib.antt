-- Laws of a row of multiples, which other crates cite.
pub mod Rows
