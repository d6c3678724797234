pub mod Kept
pub mod Level
pub mod Plan
pub mod Keeps
pub mod Stands
pub mod Plays
