pub mod Leading
pub mod Order
pub mod Search
