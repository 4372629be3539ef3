pub mod Numbers
pub mod Seen
pub mod Trees
pub mod Language
pub mod TermTable
pub mod TermActs
pub mod TermFragment
pub mod Reading
