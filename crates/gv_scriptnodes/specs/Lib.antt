pub mod Places
pub mod Lasts
pub mod Gathered
