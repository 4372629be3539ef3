pub mod GosyntaxTable
pub mod GosyntaxActs
pub mod Making
pub mod Nodes
