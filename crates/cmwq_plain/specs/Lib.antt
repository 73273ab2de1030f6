pub mod Common
pub mod Past
pub mod Earliest
pub mod Partial
