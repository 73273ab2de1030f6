pub mod Counts
pub mod InOrder
pub mod Outside
pub mod Places
pub mod Turned
pub mod Unmoved
