pub mod Bounded
pub mod Ending
pub mod Going
pub mod Machines
pub mod Outcomes
pub mod Placing
pub mod Returning
pub mod Seen
