pub mod Entries
pub mod FamilyLemmas
pub mod LogLemmas
pub mod RootLineLemmas
pub mod PollLemmas
pub mod BalanceLemmas
