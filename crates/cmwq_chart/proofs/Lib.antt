pub mod BarSteps
pub mod Few
pub mod Kept
pub mod Marked
pub mod Numbers
pub mod Rows
pub mod Steps
