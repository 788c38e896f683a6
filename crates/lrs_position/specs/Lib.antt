pub mod Names
pub mod Expressions
pub mod Locations
pub mod Routes
pub mod Translations
pub mod Readings
pub mod LinkPositions
pub mod Index
