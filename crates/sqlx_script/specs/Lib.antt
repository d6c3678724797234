pub mod Names
pub mod Numbers
pub mod Letters
pub mod Built
pub mod Grammar
pub mod Texts
pub mod Laws
