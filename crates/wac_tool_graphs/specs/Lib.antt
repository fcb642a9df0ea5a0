pub mod Lines
pub mod Puts
pub mod Rules
pub mod Alone
pub mod Pairs
