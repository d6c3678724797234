pub mod ReturnsLemmas
pub mod CheckLemmas
pub mod CloseLemmas
pub mod MarkLemmas
