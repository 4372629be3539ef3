pub mod Fault
pub mod Seen
pub mod Table
pub mod Walker
