pub mod ReplyLemmas
pub mod LevelLemmas
