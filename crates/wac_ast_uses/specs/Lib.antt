pub mod Uses
pub mod Tails
