pub mod Trees
pub mod SpecTable
pub mod SpecActs
pub mod Language
pub mod Seen
pub mod Reading
