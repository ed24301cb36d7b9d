pub mod Words
pub mod Bytes
pub mod Status
pub mod Sums
pub mod Decimals
