pub mod Groups
pub mod Unread
