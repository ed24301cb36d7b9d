pub mod Mac
pub mod Keys
pub mod Fed
