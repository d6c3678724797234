pub mod Booked
pub mod LogStart
pub mod State
pub mod Answers
pub mod Checks
pub mod Opened
pub mod MarkLog
pub mod Parts
