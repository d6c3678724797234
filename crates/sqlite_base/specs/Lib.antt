pub mod Refusals
pub mod OpenedBase
pub mod Ran
pub mod Closed
pub mod Queries
