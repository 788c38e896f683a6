-- What connections leave of the desk at which they are served, for those that stand on this crate.
pub use Rattle.lrs_web.specs.Visits.{HasVisited}
