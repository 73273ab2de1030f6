pub mod Asleep
pub mod Resting
pub mod Needed
