mod Shape
mod TypeShape
mod ExprShape
mod StmtShape
mod DeclShape
pub mod Spelling
mod TextLemmas
mod Labels
mod Lists
mod ExprWords
mod Pieces
mod StmtWords
mod Blocks
mod Modifiers
mod Headings
mod Whole
