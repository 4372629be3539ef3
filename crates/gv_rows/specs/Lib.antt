pub mod Rows
pub mod Formed
pub mod Table
pub mod Told
pub mod Laws
