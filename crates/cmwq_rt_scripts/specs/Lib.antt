pub mod Common
pub mod Followed
pub mod Ended
pub mod Journaled
pub mod Tested
