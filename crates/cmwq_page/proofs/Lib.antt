pub mod Five
