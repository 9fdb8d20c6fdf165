-- What a heard round leaves of the record, and what a round is judged as.
pub mod Roles
pub mod Left
pub mod Same
