pub mod ScriptPredictive
pub mod ScriptContains
pub mod Leaving
pub mod Nodes
