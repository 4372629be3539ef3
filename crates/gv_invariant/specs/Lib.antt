pub mod Outlines
pub mod Stacks
pub mod Invariant
pub mod Justified
pub mod Laws
