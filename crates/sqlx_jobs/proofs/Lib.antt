pub mod Levels
pub mod Numbers
pub mod RowChanges
pub mod Plans
pub mod Standing
pub mod Working
