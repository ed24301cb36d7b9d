pub mod Touching
pub mod Watching
