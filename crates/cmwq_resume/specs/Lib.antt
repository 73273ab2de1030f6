pub mod Common
pub mod Resume
pub mod Plays
pub mod Leavings
