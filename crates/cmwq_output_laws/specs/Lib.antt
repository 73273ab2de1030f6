pub mod BarLaws
pub mod SleepLaws
pub mod LevelLaws
pub mod Common
pub mod Checks
pub mod WaitLaws
