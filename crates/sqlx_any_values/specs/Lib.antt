pub mod Kinds
pub mod TypedRead
pub mod Names
pub mod Results
pub mod Drivers
