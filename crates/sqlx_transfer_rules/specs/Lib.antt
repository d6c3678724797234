pub mod Grammar
pub mod Texts
pub mod Transfers
pub mod Values
pub mod Rules
pub mod Laws
