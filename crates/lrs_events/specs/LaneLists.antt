pub mod Order
pub mod Lane
pub mod LaneFields
