pub mod Meeting
pub mod Tables
pub mod Declaring
pub mod Naming
pub mod Cutting
pub mod Lookups
pub mod Sizes
pub mod Firsts
