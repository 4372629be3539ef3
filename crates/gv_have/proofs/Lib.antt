pub mod Forms
pub mod Termed
pub mod Scoped
pub mod Proofs
pub mod Shown
