pub mod GosyntaxPredictive
pub mod Nodes
