pub mod Cores
pub mod Decimal
pub mod Bits
