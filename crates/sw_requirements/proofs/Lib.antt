-- Lemmas of this crate.
pub mod Findings
pub mod Found
pub mod Pairs
