pub mod Options
pub mod Comments
pub mod Tidied
pub mod Errors
