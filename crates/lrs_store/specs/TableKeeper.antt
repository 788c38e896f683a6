pub mod Openings
pub mod HeldImages
pub mod KeeperView
