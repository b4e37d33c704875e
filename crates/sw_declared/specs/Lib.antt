-- The words of this crate's contracts.
pub mod Spelling
pub mod Names
pub mod Members
pub mod Declarations
pub mod Ranks
pub mod Facts
