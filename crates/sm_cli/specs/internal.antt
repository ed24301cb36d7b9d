pub mod CommandLine
pub mod ImageCommand
pub mod RunCommand
