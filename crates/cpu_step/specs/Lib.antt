pub mod Plan
pub mod Effect
pub mod Fetched
pub mod Asked
pub mod Through
pub mod Lone
pub mod internal
pub mod LoneLaws
