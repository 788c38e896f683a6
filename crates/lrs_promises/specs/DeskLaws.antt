pub mod Rows
pub mod Inverses
pub mod Steps
pub mod InventoryRows
pub mod LeftRows
pub mod Classes
pub mod Overlaps
