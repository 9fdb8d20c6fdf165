-- Text in a buffer, and the lines of a listing.
pub mod Text
pub mod Lines
