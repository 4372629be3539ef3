pub mod Answered
pub mod Cuts
pub mod FirstFaults
pub mod FirstOnes
pub mod Longest
pub mod NextPieces
pub mod Prefixes
pub mod Spans
pub mod Values
mod Worked
