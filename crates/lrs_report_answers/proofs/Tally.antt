pub mod Counted
pub mod Summed
pub mod Present
pub mod Listed
pub mod Standing
pub mod Growing
