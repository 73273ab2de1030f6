pub mod Firing
pub mod Leaving
