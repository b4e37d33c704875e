-- The words of this crate's contracts.
pub mod InBody
pub mod Linked
