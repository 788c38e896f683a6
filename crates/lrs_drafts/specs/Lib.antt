pub mod Drafts
pub mod Words
pub mod Faults
pub mod Fronts
pub mod Wholes
pub mod Holdings
