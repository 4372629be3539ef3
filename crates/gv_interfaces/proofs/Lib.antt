pub mod ByName
pub mod Decided
pub mod Deciding
pub mod Finding
pub mod Order
pub mod Standing
