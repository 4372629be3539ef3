pub mod Measured
pub mod Outlines
