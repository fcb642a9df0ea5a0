pub mod Forms
pub mod Nodes
pub mod Layouts
pub mod Sliced
pub mod Arguments
pub mod ReadBack
pub mod Lent
pub mod Formatted
