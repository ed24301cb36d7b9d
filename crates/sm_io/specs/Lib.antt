pub mod Calls
pub mod Faults
pub mod Files
pub mod MemoryFiles
pub mod MemorySink
pub mod Sink
pub mod internal
