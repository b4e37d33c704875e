-- The words of this crate's contracts, and of those above it.
pub mod Types
pub mod Facts
pub mod Needs
pub mod Conversions
pub mod Operators
