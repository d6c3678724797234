pub use Rattle.sqlx_family_steps.specs.FamilySteps
pub mod Family
pub mod FamilyState
pub mod FamilyPlaces
pub mod Steps
pub mod Upkeep
