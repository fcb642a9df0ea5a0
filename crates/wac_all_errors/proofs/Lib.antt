pub mod Declaring
pub mod Told
