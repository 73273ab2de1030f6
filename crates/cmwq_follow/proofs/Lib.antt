pub mod Going
pub mod Prefixes
