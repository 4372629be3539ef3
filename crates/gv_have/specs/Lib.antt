pub mod Scoping
pub mod Telling
