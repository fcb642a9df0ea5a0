pub mod Read
pub mod Occurrences
pub mod Said
pub mod Edits
