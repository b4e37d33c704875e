pub mod Cycles
pub mod Graphs
pub mod Least
pub mod Levels
pub mod Search
