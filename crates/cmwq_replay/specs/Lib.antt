pub mod Common
pub mod Readings
pub mod Scenarios
pub mod Replay
