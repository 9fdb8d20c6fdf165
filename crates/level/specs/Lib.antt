-- A level of a probe in seven rounds: what the contracts cite.
pub mod Level
