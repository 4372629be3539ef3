pub mod Behind
pub mod Steady
pub mod Wholes
pub mod Along
