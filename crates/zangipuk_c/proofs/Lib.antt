pub mod LogLemmas
pub mod MarkLemmas
