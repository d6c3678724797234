pub mod ClientActs
