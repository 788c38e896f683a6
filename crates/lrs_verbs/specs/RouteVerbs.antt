pub mod Checks
pub mod Splits
pub mod Joins
pub mod RealignedRows
pub mod Realignments
