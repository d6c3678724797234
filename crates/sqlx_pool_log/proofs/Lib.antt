pub mod Entries
pub mod Tests
pub mod Cutting
