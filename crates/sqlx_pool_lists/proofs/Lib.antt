pub mod TicketPlaces
pub mod Counting
pub mod IdleQueues
pub mod HeldLists
