pub mod Front
pub mod Blocks
pub mod Resolving
pub mod Running
pub mod Reporting
pub mod Words
