pub mod Common
pub mod Replaced
pub mod Tidied
pub mod Formatted
pub mod Checked
pub mod Rows
