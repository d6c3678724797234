pub mod FromRow
pub mod Tuples
pub mod Mapping
