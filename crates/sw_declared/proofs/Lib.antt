pub mod Spellings
pub mod Pushed
pub mod Numbered
pub mod Ranked
pub mod Asked
pub mod Kept
pub mod Sought
