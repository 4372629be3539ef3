pub mod PointLines
pub mod Worked
