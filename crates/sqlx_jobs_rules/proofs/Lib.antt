pub mod Moments
pub mod Small
pub mod Jobs
pub mod Runs
pub mod Holders
pub mod Faults
mod WorkedRows
