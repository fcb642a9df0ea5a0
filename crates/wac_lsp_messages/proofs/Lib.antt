pub mod Each
pub mod Found
pub mod Refusing
pub mod Telling
