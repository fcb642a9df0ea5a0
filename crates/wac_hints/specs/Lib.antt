pub mod Types
pub mod Within
