pub mod Objects
pub mod Outcomes
pub mod Views
