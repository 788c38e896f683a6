pub mod Halves
pub mod Names
pub mod Spots
pub mod Targets
pub mod Ways
pub mod Exact
pub mod Links
