pub mod RowLemmas
pub mod JudgedLemmas
pub mod OpenedLemmas
pub mod RefusedLemmas
pub mod ReopenedLemmas
pub mod TableKeeper
