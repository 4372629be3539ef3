pub mod Inversion
pub mod Rules
pub mod Worked
pub mod DiskRow
pub mod ItemRow
