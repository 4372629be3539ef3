pub mod Constructs
pub mod Rows
