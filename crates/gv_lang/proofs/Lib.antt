pub mod Outlines
pub mod Rows
pub mod Trees
