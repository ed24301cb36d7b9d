pub mod Numbered
pub mod Resolved
pub mod Placed
pub mod Tables
pub mod Room
pub mod Layouts
pub mod Groups
