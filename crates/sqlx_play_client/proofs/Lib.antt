pub mod BoundLemmas
pub mod NumberLemmas
pub mod StatementLemmas
pub mod LinkLemmas
