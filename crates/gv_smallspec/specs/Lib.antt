pub mod SmallSpec
pub mod Laws
