-- The words of this crate's contracts.
pub mod Program
pub mod ProgramView
pub mod Meaning
pub mod Lowering
pub mod Drafts
pub mod Carries
pub mod State
pub mod History
pub mod Turn
pub mod World
pub mod ShortestText
pub mod Thin
pub mod TreeReading
pub mod ReportText
pub mod Reports
