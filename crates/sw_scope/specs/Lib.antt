-- The words of this crate's contracts.
pub mod Events
pub mod Around
pub mod Rules
pub mod Walk
