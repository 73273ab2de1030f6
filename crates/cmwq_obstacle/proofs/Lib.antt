pub mod FirstItems
pub mod Holding
pub mod Ranges
pub mod Unstarted
