pub mod RowTexts
pub mod Figured
pub mod Held
pub mod Circles
pub mod Idle
pub mod Last
pub mod Unended
