pub mod Recalibrated
pub mod SplitRoute
pub mod JoinRoutes
pub mod RealignChecks
pub mod MovedReferents
pub mod GoneOn
pub mod RealignRoute
