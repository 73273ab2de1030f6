pub mod Common
pub mod Alike
pub mod Examples
