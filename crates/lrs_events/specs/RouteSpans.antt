pub mod LanesOfRows
pub mod Overlaps
pub mod OpenRows
pub mod Plans
pub mod Search
pub mod Realignment
