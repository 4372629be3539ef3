pub mod Rows
pub mod Folding
pub mod Answering
pub mod Laws
