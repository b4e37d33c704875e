-- The words of this crate's contracts.
pub mod Numbers
pub mod BuiltIns
pub mod Members
pub mod Known
