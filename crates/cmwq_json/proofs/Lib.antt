pub mod Adding
pub mod Arrays
pub mod Limited
pub mod Turns
