mod Read
pub mod Arguments
pub mod Taking
pub mod Finding
pub mod Bound
pub mod Alone
pub mod OfText
