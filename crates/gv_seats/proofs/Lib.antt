pub mod Bases
pub mod Expressions
pub mod Extending
pub mod Instances
pub mod Locals
pub mod Objects
pub mod Owning
pub mod Telling
