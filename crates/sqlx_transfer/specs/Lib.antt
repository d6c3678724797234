pub mod At
pub mod Moving
pub mod Pool
pub mod BankSteps
pub mod Stands
pub mod Openings
pub mod Plays
