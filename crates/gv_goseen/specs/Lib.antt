pub mod Called
pub mod Keys
pub mod Naming
pub mod Seen
