pub mod Equality
pub mod Fitting
pub mod Frame
pub mod Many
pub mod Excluding
pub mod Sums
