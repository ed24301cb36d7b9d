pub mod Identifiers
pub mod Statements
pub mod Encoding
pub mod Operands
pub mod Lines
pub mod Renamed
pub mod internal
pub mod Laws
