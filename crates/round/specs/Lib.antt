-- What the messages of a round open to: what the contracts cite, and what is promised of t + 1 words.
pub mod Round
pub mod Straight
