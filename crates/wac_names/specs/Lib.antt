pub mod LookUps
pub mod LookedUp
pub mod Places
pub mod Steps
pub mod Traced
