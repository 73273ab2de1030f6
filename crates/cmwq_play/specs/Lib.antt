pub mod Firsts
pub mod Machines
pub mod Searches
pub mod Stands
pub mod Starts
pub mod Waiting
