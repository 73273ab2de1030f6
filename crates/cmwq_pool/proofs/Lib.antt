pub mod Noting
pub mod Seeing
pub mod Starting
pub mod Tasks
pub mod Workers
