-- What each event is.
pub mod PlaysEvent
pub mod KeepsMinimum
pub mod Reaps
pub mod Closes
pub mod GivesBack
pub mod LoanEnds
pub mod ConnectByReply
pub mod StatementRuns
