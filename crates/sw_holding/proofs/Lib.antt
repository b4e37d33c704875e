pub mod AboveLemmas
pub mod EdgeLemmas
pub mod HoldsLemmas
pub mod LevelLemmas
pub mod Lists
pub mod MemberLemmas
pub mod Repeats
pub mod SettledLemmas
