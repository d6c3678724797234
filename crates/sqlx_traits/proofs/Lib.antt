pub mod ArgumentLemmas
pub mod StepLemmas
