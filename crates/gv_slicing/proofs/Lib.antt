pub mod Truths
pub mod Lists
pub mod Operands
pub mod Owned
pub mod Fresh
pub mod SliceMakes
pub mod Items
