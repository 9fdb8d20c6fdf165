-- Rows that products of bytes are read from.
pub mod Row
