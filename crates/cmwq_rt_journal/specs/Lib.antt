pub mod Common
pub mod Breaking
pub mod Faults
pub mod Kept
pub mod Journaled
