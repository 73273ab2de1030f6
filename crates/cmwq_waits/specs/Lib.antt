pub mod Common
pub mod HeldUp
pub mod Refused
pub mod Looks
pub mod Narrowing
pub mod Registered
pub mod Begun
pub mod Allowed
