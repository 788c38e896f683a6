pub mod Edits
pub mod Sending
pub mod Stopping
pub mod Again
pub mod Resuming
pub mod Working
