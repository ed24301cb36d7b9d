pub mod Forms
pub mod Rows
pub mod Table
pub mod FormFacts
pub mod Unread
