pub mod Built
pub mod Common
pub mod Spans
pub mod ArgumentParts
pub mod ExprViews
