pub mod EmptyStruct
pub mod ReadLemmas
