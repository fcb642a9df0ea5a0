pub mod Replacements
pub mod Logs
