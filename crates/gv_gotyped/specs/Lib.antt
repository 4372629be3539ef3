pub mod First
pub mod Kinds
pub mod Operands
pub mod Parts
