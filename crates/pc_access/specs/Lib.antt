pub mod Rights
pub mod Accesses
