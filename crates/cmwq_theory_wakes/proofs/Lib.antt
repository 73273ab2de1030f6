pub mod Readiness
pub mod Holding
pub mod Starting
pub mod Attended
pub mod Resting
pub mod Reaching
pub mod Stepping
