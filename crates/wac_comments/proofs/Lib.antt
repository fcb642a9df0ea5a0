pub mod Same
pub mod Alike
pub mod Read
