pub mod Common
pub mod Slots
pub mod Workers
pub mod PoolState
pub mod Pools
pub mod Notes
pub mod Upkeep
