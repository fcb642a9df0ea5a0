pub mod Pieces
pub mod Contents
