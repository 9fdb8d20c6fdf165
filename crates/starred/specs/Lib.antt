-- The starred lines of document 01, as one list.
pub mod Starred
