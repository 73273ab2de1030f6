pub mod Outside
pub mod Calls
pub mod Serving
pub mod Misfits
pub mod Prelude
pub mod Writing
