pub mod Entries
pub mod Contents
pub mod BroughtUp
pub mod Unordered
pub mod Sorts
pub mod Orders
pub mod Reading
pub mod Stored
