pub mod Agreeing
pub mod Examples
pub mod Laws
pub mod Machine
