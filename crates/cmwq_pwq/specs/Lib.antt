pub mod Common
pub mod Pwqs
pub mod Waiting
pub mod Rows
