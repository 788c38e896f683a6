pub mod Scales
pub mod Shapes
pub mod Labels
pub mod Bands
pub mod Axis
pub mod Pictures
pub mod Laws
pub mod Strips
