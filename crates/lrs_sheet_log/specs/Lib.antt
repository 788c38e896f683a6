pub mod Log
pub mod Differences
pub mod Sums
pub mod RouteSheets
pub mod Laws
