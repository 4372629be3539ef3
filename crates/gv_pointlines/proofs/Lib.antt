pub mod Computed
pub mod LineLemmas
