-- A heard round: what the contracts cite.
pub mod Next
