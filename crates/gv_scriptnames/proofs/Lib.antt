pub mod Once
pub mod Finding
pub mod Agreement
pub mod Wholes
pub mod Rows
pub mod Constructs
