pub mod Heard
pub mod Output
pub mod Judged
pub mod Made
pub mod Ran
pub mod Report
