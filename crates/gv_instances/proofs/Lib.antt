pub mod Trees
pub mod Sorts
pub mod Assertions
pub mod Agreeing
pub mod Alike
