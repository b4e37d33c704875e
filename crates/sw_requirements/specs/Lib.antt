-- The words of this crate's contracts.
pub mod Met
pub mod Unmet
