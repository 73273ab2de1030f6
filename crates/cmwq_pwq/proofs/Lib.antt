pub mod Passes
pub mod Behind
pub mod Kept
mod RowSteps
