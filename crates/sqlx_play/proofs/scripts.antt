-- A whole script.
pub mod RunsAdded
pub mod Standing
pub mod Played
