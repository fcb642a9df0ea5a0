pub mod Document
pub mod Statements
