pub mod Cells
pub mod Lines
pub mod Columns
pub mod Questions
pub mod Endings
pub mod Sums
pub mod Faults
pub mod Tasks
