pub mod Registers
mod Told
