-- A statement on a connection of a client's.
pub mod Leaves
pub mod ActsAlike
pub mod StatementStands
pub mod RunsCounted
