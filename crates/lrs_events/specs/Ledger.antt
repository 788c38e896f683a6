pub mod Runs
pub mod Cuts
pub mod Ledger
