pub mod Extents
pub mod Graphs
