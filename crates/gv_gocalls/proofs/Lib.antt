pub mod FormLemmas
pub mod CalleeLemmas
pub mod ArgumentLemmas
pub mod FunctionLemmas
pub mod KeyedLemmas
