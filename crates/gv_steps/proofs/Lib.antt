pub mod BoundedCells
pub mod BoundedRows
pub mod BoundedSteps
pub mod Calling
pub mod Chains
pub mod Passing
pub mod Stepping
pub mod Wanted
