-- A connection that a client gives back, ends, detaches or leaks.
pub mod GiveAnswers
pub mod GivesBackLemmas
pub mod GivenBack
pub mod PlaysGive
pub mod LoanEndsLemmas
pub mod PlaysLeave
