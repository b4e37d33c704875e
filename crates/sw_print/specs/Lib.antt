pub mod Expressions
pub mod Statements
pub mod Declarations
pub mod Seen
pub mod Printed
