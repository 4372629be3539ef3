pub mod Identifiers
pub mod OwnPieces
pub mod OwnPrefixes
pub mod OwnWords
mod Worked
