pub mod Checked
pub mod Views
