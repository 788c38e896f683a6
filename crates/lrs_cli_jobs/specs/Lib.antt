pub mod Services
pub mod Jobs
pub mod SourceDesks
