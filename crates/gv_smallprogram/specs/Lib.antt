pub mod Examples
pub mod Laws
pub mod Program
pub mod Specification
pub mod Sums
