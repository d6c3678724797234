pub mod Query
pub mod Binding
pub mod Growing
pub mod Builder
pub mod Tuples
