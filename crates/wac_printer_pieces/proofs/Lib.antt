pub mod Common
pub mod Fronts
pub mod Printing
pub mod Indentation
pub mod Progress
pub mod Sequence
