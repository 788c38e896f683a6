pub mod Places
pub mod Answers
pub mod Middles
pub mod Laws
