-- The event `poll`.
pub mod PollTurns
pub mod PollReplies
pub mod PollTries
pub mod PollMarks
pub mod Polls
pub mod PollTests
pub mod PollPlays
pub mod ScriptChain
pub mod PolledPlays
pub mod PolledMoves
pub mod NeverExhausted
