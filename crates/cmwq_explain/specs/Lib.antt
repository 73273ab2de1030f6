pub mod Copies
pub mod Written
