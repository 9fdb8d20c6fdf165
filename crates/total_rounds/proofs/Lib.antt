-- The rounds after the last probe.
pub mod Closing
