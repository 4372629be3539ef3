pub mod Closed
pub mod RulesScoped
