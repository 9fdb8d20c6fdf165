-- Laws of judging.
pub mod Judging
