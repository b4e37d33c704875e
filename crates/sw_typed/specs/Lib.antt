-- The words of this crate's contracts, and of those above it.
pub mod Syntax
pub mod SyntaxOf
pub mod Elaborated
pub mod ElaboratedOf
