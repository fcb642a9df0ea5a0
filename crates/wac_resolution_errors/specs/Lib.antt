pub mod Error
pub mod ErrorModel
pub mod Places
pub mod Messages
pub mod Shapes
pub mod Shown
pub mod Rows
