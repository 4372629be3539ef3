pub mod Terms
pub mod Singles
pub mod SliceReads
pub mod Grown
pub mod Operands
pub mod Spares
pub mod Appends
