pub mod Sums
pub mod SmallLaws
pub mod OpsLemmas
