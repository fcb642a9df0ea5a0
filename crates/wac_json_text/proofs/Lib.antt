pub mod Common
pub mod Texts
pub mod Joined
pub mod Escapes
pub mod Steps
pub mod Trees
pub mod ExpressionTrees
pub mod NewSink
