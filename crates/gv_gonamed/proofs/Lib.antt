pub mod Members
pub mod Alike
pub mod Nothing
mod Steps
