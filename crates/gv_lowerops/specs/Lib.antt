pub mod Fields
pub mod Short
pub mod Tails
