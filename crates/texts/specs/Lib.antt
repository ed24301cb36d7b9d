pub mod Decimals
pub mod Hexadecimals
pub mod Lines
pub mod Words
pub mod Rows
pub mod Laws
