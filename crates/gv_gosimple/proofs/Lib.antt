pub mod Splits
pub mod SideLemmas
pub mod Results
pub mod Declared
pub mod AssignLemmas
