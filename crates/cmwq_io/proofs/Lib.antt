pub mod KnownBytes
pub mod Trying
pub mod Calls
pub mod ReadAheadLemmas
pub mod FirstLineLemmas
mod FirstFeed
