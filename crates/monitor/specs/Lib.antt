pub mod internal
pub mod Played
