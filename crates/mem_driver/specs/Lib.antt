pub mod Session
pub mod Asked
pub mod Answers
pub mod Prepared
pub mod Backend
pub mod Opened
pub mod Shared
