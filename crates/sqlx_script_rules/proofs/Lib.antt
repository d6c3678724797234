pub mod Pairs
pub mod Fronts
pub mod InTurn
pub mod FairEvents
pub mod FairTests
pub mod FairPolls
pub mod FairScripts
pub mod Depths
pub mod Gone
pub mod AtRest
pub mod Holds
mod Worked
mod WorkedScripts
mod WorkedLaws
