pub mod Declarations
pub mod Known
pub mod Seen
pub mod Called
pub mod Forms
pub mod Kept
pub mod Order
