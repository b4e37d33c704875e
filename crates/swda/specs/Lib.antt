-- The words of this crate's contracts.
pub mod ReadAs
pub mod Parsed
pub mod Calls
pub mod Answered
pub mod ExitCodes
