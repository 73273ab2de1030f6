pub mod Limited
pub mod Ends
