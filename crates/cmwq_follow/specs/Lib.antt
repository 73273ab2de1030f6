pub mod Followed
pub mod Ways
