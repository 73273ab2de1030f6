pub mod Continuing
pub mod Ending
pub mod FirstOutside
pub mod Served
pub mod Ticking
pub mod Waiting
