pub mod Doing
pub mod Pieces
