pub mod Explore
pub mod Table
pub mod Word
