pub mod Tidying
pub mod Plans
pub mod Replacing
pub mod Formatted
pub mod Checked
