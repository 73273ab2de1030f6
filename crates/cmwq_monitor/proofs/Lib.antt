pub mod Beginnings
pub mod Entries
pub mod Entering
pub mod Serials
pub mod Fired
pub mod Whole
pub mod Fitting
mod Predicted
pub mod Sleepers
pub mod Tickets
pub mod Allowed
