pub mod Once
pub mod Texts
pub mod Blocks
pub mod Answers
