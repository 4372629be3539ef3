pub mod CursorLemmas
pub mod Cuts
pub mod FormLemmas
pub mod Many
pub mod NameLemmas
pub mod NumberLemmas
pub mod WordLemmas
