pub mod Ground
pub mod Routes
pub mod Stretches
pub mod MetRoutes
