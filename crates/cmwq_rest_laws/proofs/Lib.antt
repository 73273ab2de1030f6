pub mod Quiet
pub mod Resting
pub mod Needed
