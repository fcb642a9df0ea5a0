pub mod Built
pub mod Floatless
pub mod Lists
