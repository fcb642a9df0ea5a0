pub mod Faults
pub mod Kinds
pub mod Names
pub mod Standing
pub mod Words
