-- The words of the theory: grammars, the reader, when one token ahead decides, and what the answers say.
pub mod ReaderAnswers
pub mod Arriving
pub mod Avoiding
pub mod Checking
pub mod Deciding
pub mod Ends
pub mod Grammar
pub mod Reading
