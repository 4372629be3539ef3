pub mod Steps
pub mod ReturnLemmas
pub mod BlockLemmas
