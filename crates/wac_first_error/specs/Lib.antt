pub mod Codes
pub mod Diagnostics
pub mod Findings
pub mod Mentioned
pub mod Reading
pub mod Rules
pub mod Verdicts
