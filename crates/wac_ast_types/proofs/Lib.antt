pub mod Common
pub mod TypeParts
pub mod NamedResults
pub mod Built
pub mod OptionalParts
pub mod Heads
