pub mod Rows
pub mod Acts
pub mod Boots
pub mod Laws
