pub mod Common
pub mod Counts
pub mod Rows
pub mod Waits
pub mod Upkeep
