-- The calls that write the settlement page and read it.
pub mod Write
pub mod Read
pub mod Pages
