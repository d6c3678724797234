pub mod ReadBack
pub mod FormsLemmas
pub mod CellsLemmas
