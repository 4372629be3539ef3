pub mod Numbers
pub mod Constructs
pub mod Rows
