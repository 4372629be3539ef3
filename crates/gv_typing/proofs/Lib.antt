pub mod PlacedFaults
pub mod WholeTerms
