-- The laws that the proof of the rehearsal cites, and those of its listing.
pub mod Listed
pub mod Cut
pub mod Seeds
