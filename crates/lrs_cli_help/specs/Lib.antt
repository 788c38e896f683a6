pub mod GivenWords
pub mod Options
pub mod Shown
pub mod Verbs
