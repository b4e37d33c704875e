-- The words of this crate's contracts.
pub mod Bytes
pub mod Tables
pub mod Strings
pub mod Comments
pub mod Lexemes
pub mod Cut
pub mod Tokens
pub mod Rules
pub mod Lexing
pub mod Matching
pub mod Emitted
pub mod FirstBroken
pub mod Characters
pub mod Scanning
pub mod Long
pub mod Kept
