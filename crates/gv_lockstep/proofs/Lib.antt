pub mod Arrows
pub mod Computed
pub mod Laid
pub mod Lists
pub mod News
pub mod Shape
pub mod Sites
pub mod Ways
