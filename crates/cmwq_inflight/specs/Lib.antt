pub mod Flights
pub mod Key
pub mod Keeping
