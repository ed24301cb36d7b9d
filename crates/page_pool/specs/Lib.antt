pub mod Tables
pub mod internal
