-- Opening what is shared: what the contracts and the laws cite.
pub mod Opening
pub mod Packed
pub mod Law
