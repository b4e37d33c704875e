-- The words of this crate's contracts.
pub mod Bodies
pub mod Parts
