pub mod Maps
pub mod Meanings
pub mod Values
pub mod Layouts
pub mod Groups
pub mod Founds
