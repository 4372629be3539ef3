pub mod TreeParts
pub mod Vars
pub mod DistinctNames
pub mod OpenTerms
pub mod OneByOne
pub mod TypedFacts
pub mod Choices
