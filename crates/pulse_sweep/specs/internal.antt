-- What the code's own invariants say of.
pub mod Told
