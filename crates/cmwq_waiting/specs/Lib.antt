pub mod Waits
pub mod Deadlocks
pub mod Rest
pub mod Needed
pub mod Examples
