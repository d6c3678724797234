pub mod FamilySteps
pub mod FamilyCut
