pub mod IntegerLaws
pub mod RowLemmas
pub mod SoundLemmas
pub mod AnswerLemmas
pub mod ColumnLemmas
pub mod WindowLemmas
pub mod CheckLemmas
