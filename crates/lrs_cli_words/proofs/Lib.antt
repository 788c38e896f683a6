pub mod ClassesNamed
pub mod ClassesRead
pub mod CommandLine
pub mod Folded
pub mod JobNames
pub mod JobThere
pub mod JobValues
pub mod Sources
