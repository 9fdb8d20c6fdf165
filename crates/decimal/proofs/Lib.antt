-- Laws of decimal digits.
pub mod Digits
