-- The words of this crate's contracts, and of those above it.
pub mod Syntax
pub mod Forms
pub mod Typing
