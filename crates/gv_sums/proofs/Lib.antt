pub mod Results
pub mod Adding
pub mod Finding
pub mod Numbers
pub mod Alike
pub mod Narrow
pub mod Sorted
pub mod Parts
