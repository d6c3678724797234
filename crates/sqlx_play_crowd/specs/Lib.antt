pub mod LogText
pub mod Crowd
