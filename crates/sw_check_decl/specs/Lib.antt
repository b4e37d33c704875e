-- The words of this crate's contracts.
pub mod Protocols
pub mod Conformances
pub mod TypesInSource
pub mod Counts
pub mod Forms
pub mod Declarations
