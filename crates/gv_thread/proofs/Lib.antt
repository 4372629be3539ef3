pub mod Lasts
pub mod Leaving
pub mod Parts
pub mod Prefixes
pub mod Stacks
