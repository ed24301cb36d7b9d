pub mod UnderTerms
pub mod SweepCommand
pub mod CommandLine
