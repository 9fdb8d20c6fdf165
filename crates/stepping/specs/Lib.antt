-- What a heard round makes of the record: what the contract cites.
pub mod After
