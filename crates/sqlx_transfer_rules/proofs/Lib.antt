pub mod InRange
pub mod Totals
pub mod ScriptTotals
pub mod Amounts
pub mod ValueLemmas
mod WorkedRows
