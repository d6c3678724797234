pub use Rattle.sqlite_base.specs.Refusals
pub mod Opened
pub use Rattle.sqlite_base.specs.Ran
pub use Rattle.sqlite_base.specs.Closed
pub mod Does
pub mod Runs
