-- Lemmas of this crate.
pub mod Walked
pub mod Findings
pub mod First
pub mod Lists
pub mod Meetings
pub mod Told
