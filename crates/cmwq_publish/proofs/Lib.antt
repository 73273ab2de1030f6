pub mod Beginnings
mod Adding
pub mod Legally
mod Places
mod Marking
