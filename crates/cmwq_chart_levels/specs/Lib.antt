pub mod Affected
pub mod Seen
pub mod Turns
