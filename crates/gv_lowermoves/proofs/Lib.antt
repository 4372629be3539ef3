pub mod Givens
pub mod Setting
pub mod Updates
