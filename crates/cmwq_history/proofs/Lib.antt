pub mod Followed
pub mod Ends
