pub mod Gathering
pub mod Outcome
pub mod Starting
