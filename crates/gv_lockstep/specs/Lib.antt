pub mod Lockstep
pub mod Sites
pub mod Ways
pub mod Worked
