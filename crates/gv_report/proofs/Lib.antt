pub mod OutputLemmas
pub mod PutLemmas
pub mod RanLemmas
