-- The settlement page: its layout, and what a line of it shows.
pub mod Page
pub mod Line
