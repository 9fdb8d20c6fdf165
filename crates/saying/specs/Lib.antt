-- What a party says: what the contracts cite.
pub mod Say
