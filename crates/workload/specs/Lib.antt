pub mod Draws
pub mod Program
pub mod Pulses
