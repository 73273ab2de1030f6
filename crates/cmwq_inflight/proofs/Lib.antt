pub mod Rows
pub mod Upkeep
pub mod Steps
