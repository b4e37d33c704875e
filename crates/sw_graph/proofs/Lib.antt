pub mod CycleLemmas
pub mod LeastLemmas
pub mod LevelLemmas
pub mod MarkLemmas
pub mod TableLemmas
pub mod TurnLemmas
