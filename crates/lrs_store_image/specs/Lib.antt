pub mod TableReadings
pub mod EnteringEdits
pub mod Readings
pub mod Steps
pub mod DecodedRoutes
