pub mod Verdicts
pub mod Refusals
pub mod Reopenings
pub mod TableKeeper
