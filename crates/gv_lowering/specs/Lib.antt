pub mod Bodies
pub mod More
pub mod Operands
pub mod Programs
pub mod Rows
pub mod Shapes
pub mod Statements
