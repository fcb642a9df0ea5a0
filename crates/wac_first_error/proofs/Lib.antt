pub mod Broken
pub mod Findings
pub mod Mentioned
