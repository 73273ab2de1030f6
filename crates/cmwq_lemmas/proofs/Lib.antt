pub mod Lists
pub mod Filters
pub mod Truth
pub mod Members
pub mod Rising
pub mod Passing
pub mod Numbers
pub mod Pushed
