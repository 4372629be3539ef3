pub mod Codes
pub mod formers
pub mod Lines
pub mod Memory
pub mod Outside
pub mod Places
pub mod Reasons
pub mod Tokens
