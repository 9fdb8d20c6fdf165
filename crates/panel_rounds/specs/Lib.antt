-- A round of all parties.
pub mod Round
