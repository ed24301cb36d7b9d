pub mod Units
pub mod Accesses
pub mod Done
pub mod internal
