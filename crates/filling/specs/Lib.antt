-- What a buyer gets at the price, and what all buyers get: what the contract and the promises cite.
pub mod Fill
pub mod Sums
