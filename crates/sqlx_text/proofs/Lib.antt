mod Examples
mod Prefixes
mod ByTexts
mod StatementExamples
mod Inserted
mod Summaries
