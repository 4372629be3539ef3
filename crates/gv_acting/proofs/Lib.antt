pub mod Sharing
pub mod Renewing
pub mod Walking
pub mod Acting
pub mod Simming
pub mod Booting
