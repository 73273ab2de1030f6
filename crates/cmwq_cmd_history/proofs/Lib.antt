pub mod Answer
pub mod Steps
pub mod Lived
pub mod Reached
pub mod Living
