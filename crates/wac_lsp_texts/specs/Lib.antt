pub mod Clamped
pub mod Changed
pub mod Started
