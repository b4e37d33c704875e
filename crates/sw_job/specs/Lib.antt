-- The words of this crate's contracts.
pub mod Values
pub mod Machine
pub mod Typed
