pub mod Numbered
pub mod Notes
pub mod Rising
pub mod Line
pub mod Laws
