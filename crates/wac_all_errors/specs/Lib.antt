pub mod Codes
pub mod Naming
pub mod Telling
