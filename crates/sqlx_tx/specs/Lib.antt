pub mod Lending
pub mod Begun
pub mod Within
