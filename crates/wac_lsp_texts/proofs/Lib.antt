pub mod Clamping
pub mod Following
pub mod Keeping
pub mod Placing
pub mod Starting
