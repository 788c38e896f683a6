pub mod Notes
pub mod StillFiles
pub mod Looks
pub mod PlainStores
pub mod OpenedFiles
pub mod Readings
pub mod FileAnswers
