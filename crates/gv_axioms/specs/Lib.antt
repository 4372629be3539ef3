pub mod Schema
pub mod Table
pub mod Filling
pub mod Instances
pub mod Truth
pub mod Steps
