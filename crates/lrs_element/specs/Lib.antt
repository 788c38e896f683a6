pub mod Course
pub mod Pieces
pub mod Faults
pub mod CourseFields
pub mod Marks
pub mod Lines
pub mod Line
