pub mod Statements
pub mod Expressions
