-- Opening words at any different points: what the contracts and the laws cite.
pub mod At
