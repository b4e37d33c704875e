pub mod Parsed
pub mod Lists
