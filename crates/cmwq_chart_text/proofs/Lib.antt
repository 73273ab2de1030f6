pub mod Filling
pub mod Ranges
pub mod Rows
