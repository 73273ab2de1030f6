pub mod Due
pub mod Rows
pub mod Tournament
