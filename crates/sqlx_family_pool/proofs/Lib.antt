pub mod Replaces
pub mod StepLemmas
pub mod PoolLemmas
pub mod CutLemmas
