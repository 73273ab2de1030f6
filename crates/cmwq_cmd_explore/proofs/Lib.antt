pub mod Explored
pub mod Verdicting
