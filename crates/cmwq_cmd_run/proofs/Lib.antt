mod Ends
mod Following
pub mod Interpreting
