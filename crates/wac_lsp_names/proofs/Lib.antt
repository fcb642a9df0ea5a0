pub mod Finding
mod Following
mod Giving
pub mod Spans
