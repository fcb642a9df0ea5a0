pub mod Declaring
pub mod Refusing
pub mod Together
pub mod Definitions
pub mod Packages
