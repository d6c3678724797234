pub mod Kind
pub mod Text
pub mod Errors
pub mod Cache
pub mod CacheLends
pub mod Summary
pub mod Logging
pub mod Logger
