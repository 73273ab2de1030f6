pub mod Players
pub mod Verdicts
