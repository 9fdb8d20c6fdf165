-- Lowering words by lines: what the contracts and the laws cite.
pub mod Lines
