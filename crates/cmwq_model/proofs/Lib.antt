pub mod Growing
pub mod Limits
