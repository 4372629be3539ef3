pub mod Appends
pub mod Bytes
pub mod Counts
pub mod DiskRuns
pub mod Reached
pub mod Rooms
