pub mod Readiness
pub mod Starting
pub mod Rest
pub mod Reach
pub mod Steps
