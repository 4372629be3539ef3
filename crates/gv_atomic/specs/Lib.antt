pub mod Typed
pub mod Marks
pub mod Choices
pub mod Specification
pub mod Plain
pub mod Laws
