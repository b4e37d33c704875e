pub mod Words
pub mod Keyed
pub mod Places
pub mod Kept
pub mod Given
