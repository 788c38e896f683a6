pub mod Appending
pub mod Labelled
pub mod Searching
pub mod Ordered
pub mod Apart
pub mod Plain
pub mod StripColumns
