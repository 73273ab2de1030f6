pub mod Effecting
pub mod Firing
mod OwedBound
mod Judging
pub mod Relied
mod Marked
pub mod Planned
