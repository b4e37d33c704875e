-- The words of this crate's contracts, and of those above it.
pub mod Scopes
pub mod Standings
pub mod Names
pub mod Changes
pub mod Callees
