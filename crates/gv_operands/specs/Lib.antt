pub mod Types
pub mod Operators
