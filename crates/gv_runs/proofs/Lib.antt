pub mod Examples
pub mod PackageLaws
pub mod Starting
