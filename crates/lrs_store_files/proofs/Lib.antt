pub mod PlainTables
pub mod FirstTables
pub mod OpenLemmas
pub mod FoundLemmas
pub mod RefusedLemmas
pub mod SeeingLemmas
