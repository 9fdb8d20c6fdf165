-- Laws of judging lines.
pub mod Sections
pub mod Bids
pub mod Answers
pub mod Cut
