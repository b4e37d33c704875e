pub mod Findings
pub mod Walks
pub mod Callees
pub mod Arrays
pub mod Nodes
