pub mod Words
pub mod Starting
pub mod Concurrency
pub mod Delays
pub mod Waiting
pub mod Overflow
pub mod NoRoom
pub mod Widths
