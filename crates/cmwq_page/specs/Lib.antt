pub mod Row
pub mod Rows
pub mod Entries
pub mod PageText
