pub mod Stacks
pub mod PlainActs
pub mod CommandActs
pub mod BlockActs
pub mod Telling
pub mod Whole
