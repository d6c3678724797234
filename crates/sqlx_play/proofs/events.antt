-- What any event makes of a stage.
pub mod Stages
pub mod SetUpLimits
pub mod TriesSame
pub mod StageAfter
pub mod Unmoved
pub mod StageAdvanceLemmas
pub mod Dispatch
pub mod Numbers
