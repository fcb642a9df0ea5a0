pub mod Beginning
pub mod Ends
pub mod Keeping
pub mod Starting
pub mod Suffixes
pub mod Viability
