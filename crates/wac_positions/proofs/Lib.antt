pub mod Columns
pub mod Counting
pub mod LinesAt
pub mod PlacesAt
pub mod Starts
