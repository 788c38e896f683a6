pub mod PlainTables
pub mod Openings
pub mod FoundFiles
pub mod Refusals
pub mod SeenRows
pub mod OpenedFiles
