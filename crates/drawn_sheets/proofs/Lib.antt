-- Laws of dealing sheet after sheet.
pub mod Dealing
