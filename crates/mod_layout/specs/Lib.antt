pub mod First
pub mod Table
pub mod Tables
