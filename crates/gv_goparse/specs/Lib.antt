pub mod Language
pub mod Seen
pub mod Reading
