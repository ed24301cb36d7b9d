pub mod Bytes
pub mod Strings
pub mod Sections
pub mod Symbols
pub mod Relocations
pub mod Object
pub mod Reader
pub mod internal
