pub mod Edited
pub mod Laid
pub mod Open
pub mod Remade
pub mod Sending
pub mod Stepping
