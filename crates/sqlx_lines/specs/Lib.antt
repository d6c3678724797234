pub mod Words
pub mod Numbers
pub mod Rows
pub mod FirstLine
pub mod Scripts
