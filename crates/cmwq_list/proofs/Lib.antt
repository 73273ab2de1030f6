pub mod Members
pub mod Walking
mod Between
mod Rings
mod Linking
mod Unlinking
mod Reading
