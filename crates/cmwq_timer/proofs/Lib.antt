mod Soonest
mod Levels
mod Under
mod Counting
