pub mod LaneLists
pub mod Row
pub mod Ledger
pub mod RouteSpans
