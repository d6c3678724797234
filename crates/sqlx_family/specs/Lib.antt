pub mod NoPool
pub mod Pools
pub mod Permits
pub mod RootLine
pub mod IsFamily
pub mod FamilyLogs
