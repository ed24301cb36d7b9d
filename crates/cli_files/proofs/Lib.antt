pub mod Objects
pub mod Symbols
pub mod OneContent
