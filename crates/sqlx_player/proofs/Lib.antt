pub mod Cuts
pub mod Fails
pub mod Pieces
pub mod scripts
