pub mod Room
pub mod Visits
pub mod Announcements
