-- Lemmas of this crate.
pub mod Counting
pub mod Findings
pub mod Numbers
pub mod StmtLevels
pub mod Tokens
pub mod TypeLevels
