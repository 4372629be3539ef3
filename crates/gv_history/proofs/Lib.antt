pub mod TableLemmas
pub mod WalkerLemmas
pub mod BesideLemmas
pub mod WalkingLemmas
