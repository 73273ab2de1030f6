pub mod Alike
pub mod Codes
pub mod Keys
pub mod Numbered
pub mod SameKeys
