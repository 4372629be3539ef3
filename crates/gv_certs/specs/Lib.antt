pub mod Causes
pub mod Trees
pub mod Known
pub mod Sums
pub mod Proving
pub mod Laws
pub mod Examples
