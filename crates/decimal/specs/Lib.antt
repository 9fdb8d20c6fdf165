-- Numbers as decimal digits.
pub mod Decimal
