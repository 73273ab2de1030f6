pub mod Common
pub mod Step
pub mod Live
