-- Hearing a round: how it is judged and its reply, which the contracts cite.
pub mod Hear
