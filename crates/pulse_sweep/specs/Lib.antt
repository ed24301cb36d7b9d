pub mod internal
pub mod Columns
pub mod Rows
pub mod Sweep
pub mod Laws
