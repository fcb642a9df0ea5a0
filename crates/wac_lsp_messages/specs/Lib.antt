pub mod Calls
pub mod Frames
pub mod Meaning
pub mod Notices
pub mod Reading
pub mod Replying
