pub mod Common
pub mod Documents
pub mod Whole
