pub mod Calling
pub mod Ending
pub mod Firing
pub mod First
pub mod Moving
pub mod Paths
pub mod Starting
pub mod WhoWaits
