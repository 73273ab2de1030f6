pub mod Common
pub mod Unnamed
pub mod Log
pub mod Next
pub mod Marked
pub mod Published
pub mod Publications
