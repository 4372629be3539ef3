pub mod Worlds
pub mod Commands
