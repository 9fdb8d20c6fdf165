-- What a level's messages open to: what the contracts cite.
pub mod Columns
pub mod Words
