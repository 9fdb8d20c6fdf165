-- A party's record: what the contracts cite.
pub mod Record
pub mod Updates
