pub mod CommandLemmas
pub mod ReadLemmas
pub mod TopLemmas
