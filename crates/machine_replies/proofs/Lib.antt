pub mod Asking
pub mod Cycles
pub mod Traces
