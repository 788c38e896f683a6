pub mod Expanding
pub mod Counting
pub mod Walking
pub mod Lining
pub mod Apart
pub mod Finding
pub mod LineLemmas
