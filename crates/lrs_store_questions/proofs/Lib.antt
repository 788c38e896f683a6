pub mod FileLemmas
pub mod PlainLemmas
pub mod ReadLemmas
