-- The words of this crate's contracts.
pub mod Causes
pub mod Counts
pub mod Files
pub mod MemLoaderView
pub mod OutSinkView
pub mod MemSinkView
pub mod Words
