pub mod Places
pub mod Rising
pub mod RisingNumbers
pub mod Edge
pub mod LinePlaces
pub mod Served
