pub mod Following
mod Leaving
