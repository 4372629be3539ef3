pub mod SpecPredictive
pub mod SpecContains
pub mod Forward
pub mod Backward
pub mod Top
pub mod Decided
