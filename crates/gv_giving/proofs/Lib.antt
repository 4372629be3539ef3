pub mod Givens
pub mod Entering
pub mod Returning
pub mod Folding
pub mod Answering
