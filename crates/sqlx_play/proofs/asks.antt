-- The events of a client that asks, gives up, or takes what is idle.
pub mod Asked
pub mod Asks
pub mod CancelAndTry
