pub mod Blocks
pub mod DiskReads
pub mod DiskWrites
