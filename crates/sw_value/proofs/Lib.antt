pub mod FitLemmas
pub mod MeaningLemmas
pub mod SettledLemmas
