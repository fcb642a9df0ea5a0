pub mod Failing
pub mod Faults
pub mod FirstFrames
pub mod GraphFaults
pub mod Graphing
pub mod Words
