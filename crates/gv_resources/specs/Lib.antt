pub mod Kinds
pub mod Pieces
pub mod Ghost
pub mod Told
pub mod Laws
