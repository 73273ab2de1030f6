pub mod Overtaking
pub mod Needed
pub mod Reasons
