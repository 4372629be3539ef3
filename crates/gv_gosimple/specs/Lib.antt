pub mod Lefts
pub mod Given
