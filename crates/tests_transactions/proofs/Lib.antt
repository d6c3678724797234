pub mod WritesLeave
