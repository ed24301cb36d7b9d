pub mod Alike
pub mod Blank
pub mod Forms
pub mod LoneLemmas
pub mod ThroughLemmas
