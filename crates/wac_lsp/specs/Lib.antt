pub mod Answers
pub mod Edits
pub mod Formatting
pub mod Opened
pub mod Replies
pub mod Steps
