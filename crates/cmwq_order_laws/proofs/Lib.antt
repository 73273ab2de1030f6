pub mod Firsts
pub mod Places
pub mod Overtaking
pub mod Needed
pub mod Kept
