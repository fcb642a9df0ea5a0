pub mod Alone
pub mod Attempts
pub mod Blanked
pub mod Faults
pub mod Recovered
pub mod Statements
