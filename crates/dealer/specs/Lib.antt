-- Dealing one probe's preprocessing: what the contracts cite.
pub mod Deal
