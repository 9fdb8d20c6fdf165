-- What each party does in a call for all of them.
pub mod Parties
