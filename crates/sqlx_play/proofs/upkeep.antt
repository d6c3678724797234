-- The minimum, reaping and closing.
pub mod OpensOneLemmas
pub mod KeepsMinimumLemmas
pub mod KeepsMinimumBehind
pub mod MinimumKept
pub mod Minimum
pub mod ReapsLemmas
pub mod CloseStates
pub mod ClosesLemmas
