mod Counting
mod Looking
mod RowSteps
mod Upkeep
pub mod Waits
