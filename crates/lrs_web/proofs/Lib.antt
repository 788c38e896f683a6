pub mod Responding
pub mod Visiting
pub mod Asking
pub mod Trying
pub mod AllOrNone
