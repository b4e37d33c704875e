-- The words of this crate's contracts.
pub mod Found
pub mod Given
pub mod Keys
