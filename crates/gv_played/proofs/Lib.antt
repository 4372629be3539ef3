pub mod Decided
pub mod Faults
pub mod Lines
pub mod Stuck
pub mod Throughs
