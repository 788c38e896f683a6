pub mod Counts
pub mod RunningCounts
