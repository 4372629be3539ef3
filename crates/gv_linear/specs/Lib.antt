pub mod Row
pub mod Columns
pub mod Answer
