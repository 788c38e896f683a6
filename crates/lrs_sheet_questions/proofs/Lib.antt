pub mod Appending
pub mod Answered
pub mod Listed
pub mod Passing
pub mod Story
pub mod Whole
