pub mod Chosen
pub mod Cutting
pub mod Joining
pub mod Keeping
pub mod Searching
pub mod Sowing
