-- Splitting a bid: what the contracts and the promises cite.
pub mod Table
pub mod Split
pub mod Entry
