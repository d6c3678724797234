pub mod ScriptRuns
pub mod outside
pub mod stage
pub mod events
pub mod StandsAt
pub mod Causes
pub mod Plays
