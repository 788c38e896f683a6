pub mod Change
pub mod OpenLists
pub mod KeeperCalls
pub mod ChangeLists
