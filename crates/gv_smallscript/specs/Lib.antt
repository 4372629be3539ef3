pub mod SmallScript
pub mod Laws
