pub mod Exploring
pub mod Laws
pub mod Loop
pub mod Releases
pub mod internal
