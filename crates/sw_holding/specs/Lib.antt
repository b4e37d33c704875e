pub mod Above
pub mod Edges
pub mod Holds
pub mod Levels
pub mod Members
pub mod Rules
