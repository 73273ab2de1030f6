pub mod Lasting
pub mod Needed
