pub mod Firsts
pub mod Running
pub mod Counts
pub mod Differing
pub mod Peers
