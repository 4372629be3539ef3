pub mod Placing
pub mod Starting
pub mod Running
