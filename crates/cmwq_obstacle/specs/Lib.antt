pub mod Firsts
pub mod Obstacles
