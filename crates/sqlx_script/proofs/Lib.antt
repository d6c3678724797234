pub mod NamedLines
pub mod ShortWords
mod WorkedRows
pub mod FewOpens
pub mod ToldLines
pub mod Moments
pub mod ScriptBytes
