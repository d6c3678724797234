pub mod AtWork
pub mod Texts
pub mod Applies
pub mod Keeps
pub mod Stands
pub mod Program
