pub mod Making
pub mod Empty
pub mod ScriptTable
pub mod ScriptActs
pub mod Nodes
pub mod Words
pub mod Lists
pub mod Language
