-- Laws of the roll.
pub mod Bits
pub mod Laws
pub mod Entry
