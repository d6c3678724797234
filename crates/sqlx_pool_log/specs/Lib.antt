pub mod Entries
pub mod PackedLog
pub mod Cut
