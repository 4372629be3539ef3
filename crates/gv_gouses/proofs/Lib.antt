pub mod AssignUses
pub mod CallUses
pub mod CountUses
pub mod ListUses
pub mod Outcomes
pub mod SideForms
pub mod SideUses
pub mod UseLemmas
