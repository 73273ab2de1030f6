pub mod Names
pub mod Escapes
pub mod Headings
pub mod Labels
pub mod Named
