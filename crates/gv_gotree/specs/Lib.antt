pub mod Reading
pub mod SmallPackage
