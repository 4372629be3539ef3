pub mod Acting
pub mod Bounds
pub mod Calling
pub mod Growing
pub mod Keeping
pub mod Outcomes
