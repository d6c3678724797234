pub mod Decimals
pub mod WordsLemmas
pub mod LineReads
pub mod BlocksLemmas
pub mod Valid
pub mod ScriptLemmas
pub mod SummaryLemmas
pub mod ReplyLines
mod Worked
