pub mod PutBack
pub mod Named
pub mod Becoming
pub mod Tables
pub mod Together
pub mod OneChange
pub mod Staging
