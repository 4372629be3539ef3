pub mod Control
pub mod Frames
pub mod Parts
pub mod Settling
