-- The sheets that are dealt.
pub mod Dealt
