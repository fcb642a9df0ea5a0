pub mod Common
pub mod Paths
pub mod Built
