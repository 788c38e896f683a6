pub mod Columns
pub mod Sweep
pub mod SideValues
pub mod StateSegments
pub mod Drawings
pub mod ListTotals
pub mod ListTally
