pub mod Journaling
pub mod Kept
pub mod Texts
