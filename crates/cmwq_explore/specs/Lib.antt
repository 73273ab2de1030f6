pub mod Chances
pub mod Cuts
pub mod Findings
pub mod Seeds
pub mod Seens
