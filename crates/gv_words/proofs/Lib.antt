pub mod Ascending
pub mod Placed
