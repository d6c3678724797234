pub mod AnswersLemmas
pub mod LevelDepths
pub mod BeginLemmas
pub mod CountLemmas
mod HeldLemmas
