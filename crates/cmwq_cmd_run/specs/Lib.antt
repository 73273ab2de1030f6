pub mod Common
pub mod Followed
pub mod Interpreted
pub mod Run
