pub mod Instances
pub mod Agreeing
pub mod Alike
pub mod Laws
