pub mod Sets
pub mod Naming
pub mod Resting
pub mod Pools
pub mod Reached
pub mod Waiting
pub mod Asleep
pub mod Dispatched
