pub mod LineLemmas
pub mod SingleLemmas
pub mod Apart
