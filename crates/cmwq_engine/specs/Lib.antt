pub mod Common
pub mod Conduct
pub mod Ended
