pub mod Firsts
pub mod Faults
pub mod FormLemmas
pub mod OperandLemmas
pub mod PartLemmas
pub mod NameLemmas
pub mod KindLemmas
