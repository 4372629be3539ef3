pub mod Least
pub mod Tables
pub mod Procs
pub mod Scoped
pub mod Noted
pub mod First
