pub mod Types
pub mod Declarations
pub mod Tails
