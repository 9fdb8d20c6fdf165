-- Laws of probe after probe.
pub mod Leading
