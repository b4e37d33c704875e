pub mod Words
pub mod Layouts
pub mod Lexed
pub mod Apart
