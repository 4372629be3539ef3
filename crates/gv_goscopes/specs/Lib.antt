pub mod Called
pub mod Scopes
