pub mod Firsts
pub mod Named
pub mod Structs
pub mod Trail
