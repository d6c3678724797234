-- A whole script, line by line.
pub mod Parts
pub mod Pairs
pub mod Lines
pub mod Causes
pub mod Scripts
pub mod Complete
pub mod Handed
