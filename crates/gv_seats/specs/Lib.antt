pub mod Paths
pub mod Seats
pub mod Scoping
pub mod Changes
pub mod Soundness
pub mod Laws
