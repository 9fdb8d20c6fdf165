-- What a party says, of a sheet that it is given: what the contracts cite.
pub mod Message
