pub mod Emitted
pub mod Kept
pub mod Known
pub mod Maps
pub mod Numbering
pub mod Placed
pub mod Read
pub mod Symbols
