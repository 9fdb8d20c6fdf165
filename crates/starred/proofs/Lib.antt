-- The starred lines of document 01, all of them checked.
pub mod Checked
