pub mod Commands
pub mod Numbers
pub mod Truth
