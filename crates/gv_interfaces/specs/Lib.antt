pub mod Deciding
pub mod Interfaces
pub mod Laws
pub mod Places
pub mod Tables
