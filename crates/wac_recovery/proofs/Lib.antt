pub mod Blanking
pub mod Faulting
pub mod Rejecting
pub mod Rounds
pub mod Standing
pub mod Stepping
pub mod Trying
