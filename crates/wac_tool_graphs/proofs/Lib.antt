pub mod Putting
pub mod NodeLines
pub mod Rows
pub mod Common
pub mod Agreeing
pub mod Forms
pub mod Levels
pub mod Reaching
