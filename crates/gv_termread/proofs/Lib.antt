pub mod TermPredictive
pub mod TermContains
pub mod Forward
pub mod Backward
pub mod Top
pub mod Decided
