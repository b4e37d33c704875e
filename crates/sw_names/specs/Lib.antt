-- The words of this crate's contracts.
pub mod Keys
pub mod Meeting
pub mod Pass
pub mod Walk
