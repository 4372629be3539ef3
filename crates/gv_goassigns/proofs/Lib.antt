pub mod TargetLemmas
