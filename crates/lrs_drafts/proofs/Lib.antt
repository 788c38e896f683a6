pub mod Worded
pub mod Holding
pub mod BeforeFirst
pub mod Fronted
pub mod Confirmed
