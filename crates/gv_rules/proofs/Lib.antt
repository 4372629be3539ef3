pub mod Moves
pub mod Steps
pub mod Loads
pub mod Stores
pub mod Locks
