pub mod Memory
pub mod Rising
