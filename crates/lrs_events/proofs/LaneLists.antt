pub mod Ranks
pub mod Strict
pub mod Inserted
pub mod Fronts
pub mod Lanes
pub mod Starts
