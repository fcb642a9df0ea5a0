pub mod Leb128
pub mod Reading
