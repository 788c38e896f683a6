pub mod Groups
pub mod Courses
pub mod Marks
pub mod Referents
pub mod Spans
